pub mod EachOffice
