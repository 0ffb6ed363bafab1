-- Objects as trees, and how they are read (ISO 32000-1, 7.3.2 to 7.3.10).
use Rattle.std.specs.Prelude.{ℕ, zero, suc, Bool, true, false, ◌&&◌, ◌||◌, ℤ, pos, negsuc, Some, None, codes, Option, nat_le}
use Rattle.faults.specs.declared.fault.Fault.{Fault}
use Rattle.faults.specs.declared.reason.Reason.TheVariants.{BytesEnd, BadToken, TooDeep, KeyAgain}
use Rattle.format.specs.Bytes.{Bytes, Got, ok, bad, then, up_to, same}
use Rattle.format.specs.Failures.{object_fault}
use Rattle.format.specs.Space.{skip}
use Rattle.format.specs.Strings.{turns}
use Rattle.format.specs.Tokens.{Mark, open_array, close_array, open_dict, close_dict, Kind, int, real, name, text, hex, mark, word, ended, flawed, flaw_fault, Token, token_at}

mutual
  pub data Obj : Type 0 where
    null : Obj
    boolean : Bool → Obj
    integer : ℤ → Obj
    -- a real and a string by their bytes in the file
    decimal : Bytes → Obj
    literal : Bytes → Obj
    hexadecimal : Bytes → Obj
    -- a name by the bytes that it stands for
    named : Bytes → Obj
    array : Objs → Obj
    dict : Entries → Obj
    -- a reference: number and generation
    ref : ℕ → ℕ → Obj

  pub data Objs : Type 0 where
    no_objs : Objs
    more_objs : Obj → Objs → Objs

  -- for each entry of a dictionary, in the file's order: the decoded key, the key's bytes, the value's bytes, the value
  pub data Entries : Type 0 where
    no_entries : Entries
    more_entries : (key key_bytes value_bytes : Bytes) → Obj → Entries → Entries

abbrev pub Reader : Type 0
Reader = ℕ → Bytes → Got Obj

-- the unsigned integer that a token is
unfoldable pub plain_int : Kind → Option ℕ
plain_int (int true (pos n)) = Some n
plain_int (int true (negsuc n)) = None
plain_int (int false z) = None
plain_int (real w) = None
plain_int (name d) = None
plain_int (text w) = None
plain_int (hex w) = None
plain_int (mark m) = None
plain_int (word w) = None
plain_int ended = None
plain_int (flawed f) = None

-- the word that a token is
unfoldable pub plain_word : Kind → Option Bytes
plain_word (word w) = Some w
plain_word (int u z) = None
plain_word (real w) = None
plain_word (name d) = None
plain_word (text w) = None
plain_word (hex w) = None
plain_word (mark m) = None
plain_word ended = None
plain_word (flawed f) = None

unfoldable pub is_word : Bytes → Kind → Bool
is_word v k = elim (plain_word k) [ None ↦ false | Some w ↦ same v w ]

-- The trial for a reference, behind an unsigned integer n: a generation and `R`, or nothing.
-- A fault met on the way counts as nothing: it rises when that token is read in its turn.
unfoldable pub ref_mark : ℕ → ℕ → Token → Option (Obj × ℕ × Bytes)
ref_mark n g t = elim (is_word (codes "R") t.kind) [ true ↦ Some (ref n g, t.to, t.rest) | false ↦ None ]

unfoldable pub ref_rest : ℕ → Token → Option (Obj × ℕ × Bytes)
ref_rest n t =
    elim (plain_int t.kind) [
      | None ↦ None
      | Some g ↦ elim (nat_le 1 n && nat_le g 65535) [ true ↦ ref_mark n g (token_at t.to t.rest) | false ↦ None ]
    ]

-- unless `R` was found, it is the integer, and reading goes on behind that
unfoldable pub tried : ℤ → Token → Option (Obj × ℕ × Bytes) → Got Obj
tried z t None = ok (integer z) t.to t.rest
tried z t (Some r) = ok r.0 r.1 r.2

unfoldable pub trial : Bool → ℤ → Token → Got Obj
trial true (pos n) t = tried (pos n) t (ref_rest n (token_at t.to t.rest))
trial true (negsuc n) t = ok (integer (negsuc n)) t.to t.rest
trial false z t = ok (integer z) t.to t.rest

-- `true`, `false` and `null`; any other word is misplaced
unfoldable pub word_obj : Bytes → Token → Got Obj
word_obj w t =
    elim (same w (codes "true")) [
      | true ↦ ok (boolean true) t.to t.rest
      | false ↦
          elim (same w (codes "false")) [
            | true ↦ ok (boolean false) t.to t.rest
            | false ↦
                elim (same w (codes "null")) [
                  | true ↦ ok null t.to t.rest
                  | false ↦ bad (object_fault BadToken t.from)
                ]
          ]
    ]

-- an array or a dictionary, given how its inside is read behind the mark
unfoldable pub mark_obj : Reader → Reader → Mark → Token → Got Obj
mark_obj arr dic open_array t = arr t.to t.rest
mark_obj arr dic open_dict t = dic t.to t.rest
mark_obj arr dic close_array t = bad (object_fault BadToken t.from)
mark_obj arr dic close_dict t = bad (object_fault BadToken t.from)

-- one object that starts with the token
unfoldable pub of_token : Reader → Reader → Kind → Token → Got Obj
of_token arr dic (int u z) t = trial u z t
of_token arr dic (real w) t = ok (decimal w) t.to t.rest
of_token arr dic (name d) t = ok (named d) t.to t.rest
of_token arr dic (text w) t = ok (literal w) t.to t.rest
of_token arr dic (hex w) t = ok (hexadecimal w) t.to t.rest
of_token arr dic (mark m) t = mark_obj arr dic m t
of_token arr dic (word w) t = word_obj w t
of_token arr dic ended t = bad (object_fault BytesEnd t.from)
of_token arr dic (flawed f) t = bad (flaw_fault t.from f)

-- whether a token is the mark that closes an array
unfoldable pub closes_array : Kind → Bool
closes_array (mark close_array) = true
closes_array (mark open_array) = false
closes_array (mark open_dict) = false
closes_array (mark close_dict) = false
closes_array (word w) = false
closes_array (int u z) = false
closes_array (real w) = false
closes_array (name d) = false
closes_array (text w) = false
closes_array (hex w) = false
closes_array ended = false
closes_array (flawed f) = false

-- the elements of an array up to its closing mark
unfoldable pub items : Reader → (turns : ℕ) → ℕ → Bytes → Got Objs
items elem zero p xs = bad (object_fault BytesEnd p)
items elem (suc n) p xs =
    let t = token_at p xs in
    elim (closes_array t.kind) [
      | true ↦ ok no_objs t.to t.rest
      | false ↦ then (elem p xs) (λ o q ys. then (items elem n q ys) (λ os r zs. ok (more_objs o os) r zs))
    ]

-- whether a decoded key is among the entries
unfoldable pub holds : Bytes → Entries → Bool
holds k no_entries = false
holds k (more_entries j r v o es) = same k j || holds k es

-- what a dictionary has next: its end, a key, or something else
pub data Next : Type 0 where
  closes : Next
  key : Bytes → Next
  fails : Fault → Next

unfoldable pub next : ℕ → Kind → Next
next p (mark close_dict) = closes
next p (mark close_array) = fails (object_fault BadToken p)
next p (mark open_array) = fails (object_fault BadToken p)
next p (mark open_dict) = fails (object_fault BadToken p)
next p (name d) = key d
next p (word w) = fails (object_fault BadToken p)
next p (int u z) = fails (object_fault BadToken p)
next p (real w) = fails (object_fault BadToken p)
next p (text w) = fails (object_fault BadToken p)
next p (hex w) = fails (object_fault BadToken p)
next p ended = fails (object_fault BytesEnd p)
next p (flawed f) = fails (flaw_fault p f)

-- how the entries behind some are read
abbrev pub More : Type 0
More = Entries → ℕ → Bytes → Got Entries

-- an entry's value, from behind white space, and the entries behind it
unfoldable pub valued : Reader → More → Entries → (key key_bytes : Bytes) → (ℕ × Bytes) → Got Entries
valued elem more seen k kb s =
    then (elem s.0 s.1)
    (λ o q ys.
    let vb = up_to s.0 s.1 q in
    then (more (more_entries k kb vb o seen) q ys) (λ es r zs. ok (more_entries k kb vb o es) r zs))

-- an entry, from its key's token; a key that stood before is refused before its value is read
unfoldable pub keyed : Reader → More → Entries → Bytes → Token → Got Entries
keyed elem more seen k t =
    elim (holds k seen) [
      | true ↦ bad (object_fault KeyAgain t.from)
      | false ↦ valued elem more seen k (up_to t.from t.bytes t.to) (skip false t.to t.rest)
    ]

unfoldable pub entry_at : Reader → More → Entries → Token → Got Entries
entry_at elem more seen t =
    elim (next t.from t.kind) [
      | closes ↦ ok no_entries t.to t.rest
      | key k ↦ keyed elem more seen k t
      | fails f ↦ bad f
    ]

-- the entries of a dictionary up to its closing mark; `seen` has those before, the last first
unfoldable pub entries : Reader → (turns : ℕ) → More
entries elem zero seen p xs = bad (object_fault BytesEnd p)
entries elem (suc n) seen p xs = entry_at elem (entries elem n) seen (token_at p xs)

-- one object, given how the inside of an array and of a dictionary is read behind a mark at a place
unfoldable pub one : (ℕ → Reader) → (ℕ → Reader) → Reader
one arr dic p xs = let t = token_at p xs in of_token (arr t.from) (dic t.from) t.kind t

unfoldable pub too_deep : ℕ → Reader
too_deep s p xs = bad (object_fault TooDeep s)

unfoldable pub in_array : Reader → ℕ → Reader
in_array elem s p xs = then (items elem turns p xs) (λ os q ys. ok (array os) q ys)

unfoldable pub in_dict : Reader → ℕ → Reader
in_dict elem s p xs = then (entries elem turns no_entries p xs) (λ es q ys. ok (dict es) q ys)

-- an object in which arrays and dictionaries nest at most d deep
unfoldable pub object_by : ℕ → Reader
object_by zero = one too_deep too_deep
object_by (suc d) = one (in_array (object_by d)) (in_dict (object_by d))

-- an object: arrays and dictionaries nest at most 32 deep, the outermost being the first
unfoldable pub object : Reader
object = object_by 32

-- the value of a decoded key
unfoldable pub value_of : Bytes → Entries → Option Obj
value_of k no_entries = None
value_of k (more_entries j r v o es) = elim (same k j) [ true ↦ Some o | false ↦ value_of k es ]

-- what a proof by computation unfolds
unfoldable pub computes_objects : Unit {0}
unfolding plain_int plain_word is_word ref_mark ref_rest tried trial word_obj mark_obj of_token closes_array items holds next valued keyed entry_at entries one too_deep in_array in_dict object_by object value_of
computes_objects = tt
