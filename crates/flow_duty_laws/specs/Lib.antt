pub mod TakerLaws
