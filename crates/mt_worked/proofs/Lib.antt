mod ItemLemmas
mod NumberLemmas
mod HeldLemmas
mod NoRowsLemmas
mod ExampleLemmas
