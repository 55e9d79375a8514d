pub mod AnswersAreHeard
pub mod AnswersAreRead
pub mod RequestsAreGood
pub mod RequestsAreHeard
pub mod RequestsAreRead
pub mod ResponsesAreRead
