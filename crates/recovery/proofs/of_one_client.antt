pub mod ConnackServed
