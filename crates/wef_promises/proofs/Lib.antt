pub mod Admitted
pub mod Drawn
pub mod Given
pub mod Lasting
pub mod OtherRows
pub mod Risen
