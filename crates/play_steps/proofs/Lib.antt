pub mod PartsAdded
