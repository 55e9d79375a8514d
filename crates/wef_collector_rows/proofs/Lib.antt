pub mod BookmarkRows
pub mod RowForms
pub mod SubscriptionRows
