pub mod ChartLines
pub mod Chart
