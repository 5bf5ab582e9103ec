-- What the contracts of the program's functions cite.
--     Reading   what each read's answer says (`input::heard`), and what is held in the end and how the reading stopped (`input::read`)
pub mod Reading
