pub mod MachineRuns
pub mod Numbered
pub mod Reaching
pub mod Rising
