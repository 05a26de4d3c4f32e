pub mod Digits
pub mod Lists
pub mod Numbers
pub mod Orderings
pub mod Splits
pub mod Truth
