pub mod Results
pub mod Made
