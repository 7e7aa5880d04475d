-- The numbers of the faults, and the stations and the keys that they name.
use Rattle.std.specs.Prelude.{ℕ, List, Option, Some, None}
use Rattle.net_model.specs.declared.fault.ModelFault.{ModelFault}
use Rattle.net_model.specs.declared.fault.ModelFault.TheVariants.{TooLong, NotToml, Missing, WrongType, UnknownKey}
use Rattle.net_model.specs.declared.fault.ModelFault.TheVariants.{BadName, NameTwice, OutOfRange, UnknownStation}
use Rattle.net_model.specs.declared.fault.ModelFault.TheVariants.{ShortDelay, NoWayOut, TooMany, NoMemory, IntoSource}
use Rattle.net_model.specs.Fields.{key_of}

-- the number of each fault
abbrev pub fault_number : ModelFault → ℕ
fault_number TooLong = 1
fault_number NotToml = 2
fault_number (Missing place field) = 3
fault_number (WrongType place field) = 4
fault_number (UnknownKey place key) = 5
fault_number (BadName place) = 6
fault_number (NameTwice place) = 7
fault_number (OutOfRange place field) = 8
fault_number (UnknownStation place) = 9
fault_number (ShortDelay place) = 10
fault_number (NoWayOut place) = 11
fault_number (TooMany place) = 12
fault_number NoMemory = 13
fault_number (IntoSource place) = 14

-- the station that a fault names, or 0
abbrev pub fault_place : ModelFault → ℕ
fault_place TooLong = 0
fault_place NotToml = 0
fault_place (Missing place field) = place
fault_place (WrongType place field) = place
fault_place (UnknownKey place key) = place
fault_place (BadName place) = place
fault_place (NameTwice place) = place
fault_place (OutOfRange place field) = place
fault_place (UnknownStation place) = place
fault_place (ShortDelay place) = place
fault_place (NoWayOut place) = place
fault_place (TooMany place) = place
fault_place NoMemory = 0
fault_place (IntoSource place) = place

-- the key that a fault names
abbrev pub fault_key : ModelFault → Option (List ℕ)
fault_key (Missing place field) = Some (key_of field)
fault_key (WrongType place field) = Some (key_of field)
fault_key (OutOfRange place field) = Some (key_of field)
fault_key (UnknownKey place key) = Some key
fault_key TooLong = None
fault_key NotToml = None
fault_key (BadName place) = None
fault_key (NameTwice place) = None
fault_key (UnknownStation place) = None
fault_key (ShortDelay place) = None
fault_key (NoWayOut place) = None
fault_key (TooMany place) = None
fault_key NoMemory = None
fault_key (IntoSource place) = None
