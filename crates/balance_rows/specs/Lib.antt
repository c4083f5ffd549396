pub mod StockRows
