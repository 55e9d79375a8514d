pub mod Again
pub mod DecimalDigits
pub mod DigitsRead
pub mod GoodTexts
pub mod GoodTextsInside
pub mod GoodTrees
pub mod InnerTrees
pub mod TextsInside
