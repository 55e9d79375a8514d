pub mod KindRows
pub mod Lasting
pub mod Missing
pub mod Sizes
pub mod Sums
pub mod Whole
pub mod Written
