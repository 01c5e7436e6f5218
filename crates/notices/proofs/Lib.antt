pub mod BundleFirsts
