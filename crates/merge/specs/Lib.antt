pub mod CornerChoice
pub mod Station
pub mod Standing
pub mod Going
pub mod Passing
pub mod SettingOut
