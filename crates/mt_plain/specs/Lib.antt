pub mod NumberRows
