-- What each reason for a refusal means: its number, the layers that can meet it, the place that it names, and its words.
use Rattle.std.specs.Prelude.{ℕ, List, [], ◌∷◌, codes}
use Rattle.faults.specs.declared.layer.Layer.{Layer}
use Rattle.faults.specs.declared.layer.Layer.TheVariants.{Token, Object, Section, Chain, Book, Store}
use Rattle.faults.specs.declared.reason.Reason.{Reason}
use Rattle.faults.specs.declared.reason.Reason.TheVariants.{NoHeader, NoTail, BytesEnd, BadToken, TooDeep, IntegerRange, KeyAgain, BadFrame, BadLine, BadTrailer, ChainRule, FileBound, OutsideBody, ShortBuffer, StoreLength, BookShut, OpenAlready, UpdateOpen, NoUpdate, SlipSpent, NoRevision, NotInUse, CannotPut, RootNumber, ChangedAlready, UpdateFull, NoChanges, PastLimits, NoSpace, CutPastEnd}

-- which place a fault names
pub data Where : Type 0 where
  -- always 0
  at_start : Where
  -- the length of the file
  at_length : Where
  -- a byte that the reader found, or the end of the bytes that it was given
  found : Where

pub record Rule : Type 0 where
  pub number : ℕ
  pub layers : List Layer
  pub place : Where
  pub words : List ℕ

abbrev rule : ℕ → List Layer → Where → List ℕ → Rule
rule n ls p w = record { number = n; layers = ls; place = p; words = w }

abbrev pub rule_of : Reason → Rule
rule_of NoHeader = rule 2 (Chain ∷ []) at_start (codes "the file does not begin with a PDF 1.0 to 1.7 header")
rule_of NoTail = rule 3 (Chain ∷ []) at_length (codes "the file does not end with a startxref tail")
rule_of BytesEnd = rule 4 (Token ∷ Object ∷ Section ∷ []) found (codes "the bytes end where more is needed")
rule_of BadToken = rule 5 (Token ∷ Object ∷ []) found (codes "a token is ill-formed or misplaced")
rule_of TooDeep = rule 6 (Token ∷ Object ∷ []) found (codes "brackets nest too deep")
rule_of IntegerRange = rule 7 (Token ∷ []) found (codes "an integer is out of range")
rule_of KeyAgain = rule 8 (Object ∷ []) found (codes "a dictionary has a key twice")
rule_of BadFrame = rule 9 (Object ∷ []) found (codes "an object's or a stream's frame is broken")
rule_of BadLine = rule 10 (Section ∷ []) found (codes "a line or an entry of a section is ill-formed")
rule_of BadTrailer = rule 11 (Section ∷ []) found (codes "a trailer entry is missing, unwanted or of the wrong kind")
rule_of ChainRule = rule 12 (Chain ∷ []) found (codes "a rule of the chain or of the table is broken")
rule_of FileBound = rule 13 (Chain ∷ []) at_start (codes "the file, its revisions or an object number pass the bound")
rule_of OutsideBody = rule 14 (Object ∷ []) found (codes "bytes stand before or behind the body")
rule_of ShortBuffer = rule 16 (Book ∷ []) at_start (codes "the buffer is too short")
rule_of StoreLength = rule 17 (Store ∷ []) at_start (codes "the bytes are too many for the store")
rule_of BookShut = rule 41 (Book ∷ []) at_start (codes "the book is shut")
rule_of OpenAlready = rule 42 (Book ∷ []) at_start (codes "the book is open already")
rule_of UpdateOpen = rule 43 (Book ∷ []) at_start (codes "an update is open")
rule_of NoUpdate = rule 44 (Book ∷ []) at_start (codes "no update is open")
rule_of SlipSpent = rule 45 (Book ∷ []) at_start (codes "the slip is spent")
rule_of NoRevision = rule 46 (Book ∷ []) at_start (codes "there is no such revision")
rule_of NotInUse = rule 47 (Book ∷ []) at_start (codes "the object number is not in use")
rule_of CannotPut = rule 48 (Book ∷ []) at_start (codes "the object number cannot be put")
rule_of RootNumber = rule 49 (Book ∷ []) at_start (codes "the root object cannot be removed")
rule_of ChangedAlready = rule 50 (Book ∷ []) at_start (codes "the update has changed this object number already")
rule_of UpdateFull = rule 51 (Book ∷ []) at_start (codes "the update is full")
rule_of NoChanges = rule 52 (Book ∷ []) at_start (codes "the update holds no changes")
rule_of PastLimits = rule 53 (Book ∷ []) at_start (codes "the update would pass the limits of the file")
rule_of NoSpace = rule 54 (Store ∷ []) at_start (codes "the store has too little space")
rule_of CutPastEnd = rule 56 (Store ∷ []) at_start (codes "the cut lies past the end of the store")

-- the layer that meets it, and the lowest where several can
abbrev lowest : List Layer → Layer
lowest [] = Book
lowest (l ∷ ls) = l

abbrev pub layer_of : Reason → Layer
layer_of r = lowest (rule_of r).layers
