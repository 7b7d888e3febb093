pub mod OddPowers
