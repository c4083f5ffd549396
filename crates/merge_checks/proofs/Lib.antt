pub mod LogsChecked
