pub mod GoodSubscribes
pub mod KeptNames
pub mod SubscribesAgain
