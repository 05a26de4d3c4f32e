mod InputLemmas
mod Reported
mod WordLemmas
