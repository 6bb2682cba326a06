-- What a sink holds after bytes are written or passed on.
pub mod Written
pub mod PassedOn
pub mod FaultWalks
