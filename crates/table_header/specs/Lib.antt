pub mod HasHeader
