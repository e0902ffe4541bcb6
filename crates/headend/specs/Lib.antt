pub mod HeadEnd
