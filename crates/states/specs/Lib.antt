pub mod StatesIn
