pub mod PriceJob
