pub mod SyncWords
