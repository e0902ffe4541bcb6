pub mod Station
pub mod Going
pub mod Played
pub mod Totals
pub mod Pass
pub mod Moving
pub mod SettingOut
