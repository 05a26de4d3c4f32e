pub mod ByteLemmas
pub mod Slices
pub mod Drafts
pub mod PathNames
pub mod HeldFacts
pub mod Listings
pub mod Puts
pub mod WholeFiles
