pub mod ListRow
