pub mod SelectLemmas
