pub mod SureCore
