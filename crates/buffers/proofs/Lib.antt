pub mod StoredBytes
