pub mod Rings
pub mod UnderWay
