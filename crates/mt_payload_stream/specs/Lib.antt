pub mod MarkedFiles
