pub mod Cuts
pub mod SaidEvents
