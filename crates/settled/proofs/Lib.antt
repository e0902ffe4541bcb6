pub mod OneChoice
