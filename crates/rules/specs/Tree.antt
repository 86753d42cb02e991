-- A function as a tree. One type serves what is read and what is written: a file that comes in has instructions for
-- items, without map entries, and no slots.
use Rattle.std.specs.Prelude.{ℕ, Bool, List}
use Rattle.rules.specs.declared.EdgeArgument.{EdgeArgument}

pub record Value : Type 0 where
  pub size : ℕ
  pub marked : Bool

pub record Edge : Type 0 where
  pub target : ℕ
  pub arguments : List EdgeArgument

pub record MapEntry : Type 0 where
  pub slot : ℕ
  pub size : ℕ

pub record Instruction : Type 0 where
  pub safepoint : Bool
  pub terminator : Bool
  pub tag : ℕ
  pub arguments : List ℕ
  pub results : List ℕ
  pub edges : List Edge
  pub contexts : List ℕ
  pub entries : List MapEntry

-- what stands in a block: an instruction of the file, or one that was added
pub data Item : Type 0 where
  instruction : Instruction → Item
  slot_address : (result slot : ℕ) → Item
  store : (value address : ℕ) → Item
  load : (result address size : ℕ) → Item
  jump : Edge → Item

pub record Block : Type 0 where
  pub cold : Bool
  pub number : ℕ
  pub parameters : List ℕ
  pub items : List Item

-- a slot is its size; values and slots are numbered by position
pub record Function : Type 0 where
  pub values : List Value
  pub slots : List ℕ
  pub blocks : List Block
