pub mod LoadRows
