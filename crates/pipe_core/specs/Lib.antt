pub mod Stamps
pub mod Next
pub mod Observed
pub mod Plain
pub mod Core
pub mod RingState
pub mod CoreOrder
pub mod RefusedSteps
