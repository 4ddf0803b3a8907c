pub mod WriteHeard
pub mod Seldom
pub mod HalvesPaired
pub mod ItemsAct
