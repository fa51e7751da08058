-- The numbers and names of refusals.
use Rattle.std.specs.Prelude.{ℕ, List, codes}
use Rattle.access_model.specs.declared.errors.GateError.{GateError}
use Rattle.access_model.specs.declared.errors.GateError.TheVariants.{NoEntry, Again, NoMemory, Busy, NotDir, IsDir, Invalid, TooMany, NoSpace, ReadOnly, Order, Hook}

-- the errno; a hook's is its code
abbrev pub number_of : GateError → ℕ
number_of NoEntry = 2
number_of Again = 11
number_of NoMemory = 12
number_of Busy = 16
number_of NotDir = 20
number_of IsDir = 21
number_of Invalid = 22
number_of TooMany = 24
number_of NoSpace = 28
number_of ReadOnly = 30
number_of Order = 35
number_of (Hook code) = code

-- the name that is printed beside the number
abbrev pub name_of : GateError → List ℕ
name_of NoEntry = codes "NoEntry"
name_of Again = codes "Again"
name_of NoMemory = codes "NoMemory"
name_of Busy = codes "Busy"
name_of NotDir = codes "NotDir"
name_of IsDir = codes "IsDir"
name_of Invalid = codes "Invalid"
name_of TooMany = codes "TooMany"
name_of NoSpace = codes "NoSpace"
name_of ReadOnly = codes "ReadOnly"
name_of Order = codes "Order"
name_of (Hook code) = codes "Hook"
