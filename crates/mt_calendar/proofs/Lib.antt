pub mod Days
pub mod Casts
pub mod Walk
pub mod InType
pub mod WrittenDates
pub mod WrittenMoments
