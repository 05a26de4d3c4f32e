pub mod JoinLoop
pub mod JoinLaws
pub mod QueryTests
pub mod CondLaws
