pub mod StatesAlike
