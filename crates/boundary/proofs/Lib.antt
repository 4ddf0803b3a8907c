pub mod DrawnFromBytes
