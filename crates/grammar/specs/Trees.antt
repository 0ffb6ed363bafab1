-- Objects as their tokens spell them (ISO 32000-1, 7.3.2 to 7.3.10).
use Rattle.std.specs.Prelude.{◌≡◌, ℕ, suc, ◌≤◌, Bool, true, false, List, [], ◌∷◌, ◌++◌, length, ℤ, pos, codes, ◌≢◌}
use Rattle.format.specs.Bytes.{Bytes}
use Rattle.format.specs.Objects.{Obj, null, boolean, integer, decimal, literal, hexadecimal, named, array, dict, ref, Objs, no_objs, more_objs, Entries, no_entries, more_entries}
use Rattle.format.specs.Tokens.{int, real, name, text, hex, mark, word, open_array, close_array, open_dict, close_dict}
use Rattle.grammar.specs.Lexing.{Lexeme, Lexes}

-- the bytes of tokens, with what stands before each
unfoldable pub with_leads : List Lexeme → Bytes
with_leads [] = []
with_leads (t ∷ ts) = t.lead ++ (t.own ++ with_leads ts)

-- the bytes from the first token's first to the last token's last
unfoldable pub bytes_of : List Lexeme → Bytes
bytes_of [] = []
bytes_of (t ∷ ts) = t.own ++ with_leads ts

-- 7.3.10: behind an unsigned integer of 1 or more, an unsigned integer up to 65535 and the keyword `R` make a reference
pub data Refers : (unsigned : Bool) → ℤ → ℕ → List Lexeme → Type 0 where
  refers : {n g : ℕ} {a b : Lexeme} {us : List Lexeme} → 1 ≤ n → g ≤ 65535 → a.kind ≡ int true (pos g) → b.kind ≡ word (codes "R") → Refers true (pos n) g (a ∷ b ∷ us)

-- 7.3.7: no entry has that key
pub data Absent (k : Bytes) : Entries → Type 0 where
  none : Absent k no_entries
  more : {j jb vb : Bytes} {o : Obj} {es : Entries} → (k ≢ j) → Absent k es → Absent k (more_entries j jb vb o es)

mutual
  -- The tokens ts, before the tokens us, spell the object o. House rule: arrays and dictionaries nest in it at most d deep.
  pub data Spells : ℕ → Obj → List Lexeme → List Lexeme → Type 0 where
    -- 7.3.9
    null_word : {d : ℕ} {t : Lexeme} {us : List Lexeme} → t.kind ≡ word (codes "null") → Spells d null (t ∷ []) us
    -- 7.3.2
    true_word : {d : ℕ} {t : Lexeme} {us : List Lexeme} → t.kind ≡ word (codes "true") → Spells d (boolean true) (t ∷ []) us
    false_word : {d : ℕ} {t : Lexeme} {us : List Lexeme} → t.kind ≡ word (codes "false") → Spells d (boolean false) (t ∷ []) us
    -- 7.3.3: an integer that no reference begins with
    an_integer : {d : ℕ} {u : Bool} {z : ℤ} {t : Lexeme} {us : List Lexeme} → t.kind ≡ int u z → ((g : ℕ) → Refers u z g us → ⊥) → Spells d (integer z) (t ∷ []) us
    a_real : {d : ℕ} {w : Bytes} {t : Lexeme} {us : List Lexeme} → t.kind ≡ real w → Spells d (decimal w) (t ∷ []) us
    -- 7.3.4
    a_literal : {d : ℕ} {w : Bytes} {t : Lexeme} {us : List Lexeme} → t.kind ≡ text w → Spells d (literal w) (t ∷ []) us
    a_hexadecimal : {d : ℕ} {w : Bytes} {t : Lexeme} {us : List Lexeme} → t.kind ≡ hex w → Spells d (hexadecimal w) (t ∷ []) us
    -- 7.3.5
    a_name : {d : ℕ} {w : Bytes} {t : Lexeme} {us : List Lexeme} → t.kind ≡ name w → Spells d (named w) (t ∷ []) us
    -- 7.3.6: `[`, objects, `]`
    an_array : {d : ℕ} {os : Objs} {a b : Lexeme} {ts us : List Lexeme} → a.kind ≡ mark open_array → Items d os ts (b ∷ us) → b.kind ≡ mark close_array →
        Spells (suc d) (array os) (a ∷ (ts ++ (b ∷ []))) us
    -- 7.3.7: `<<`, entries, `>>`
    a_dictionary : {d : ℕ} {es : Entries} {a b : Lexeme} {ts us : List Lexeme} → a.kind ≡ mark open_dict → Pairs d es ts (b ∷ us) → b.kind ≡ mark close_dict →
        Spells (suc d) (dict es) (a ∷ (ts ++ (b ∷ []))) us
    -- 7.3.10
    a_reference : {d n g : ℕ} {a b c : Lexeme} {us : List Lexeme} → a.kind ≡ int true (pos n) → Refers true (pos n) g (b ∷ c ∷ []) → Spells d (ref n g) (a ∷ b ∷ c ∷ []) us

  -- 7.3.6: the objects of an array, one after another
  pub data Items : ℕ → Objs → List Lexeme → List Lexeme → Type 0 where
    no_items : {d : ℕ} {us : List Lexeme} → Items d no_objs [] us
    more_items : {d : ℕ} {o : Obj} {os : Objs} {ts : List Lexeme} {vs us : List Lexeme} → Spells d o ts (vs ++ us) → Items d os vs us → Items d (more_objs o os) (ts ++ vs) us

  -- 7.3.7: the entries of a dictionary, each a name and an object; no key stands twice
  pub data Pairs : ℕ → Entries → List Lexeme → List Lexeme → Type 0 where
    no_pairs : {d : ℕ} {us : List Lexeme} → Pairs d no_entries [] us
    more_pairs : {d : ℕ} {k : Bytes} {o : Obj} {es : Entries} {t : Lexeme} {ts vs us : List Lexeme} → t.kind ≡ name k → Absent k es → Spells d o ts (vs ++ us) → Pairs d es vs us →
        Pairs d (more_entries k t.own (bytes_of ts) o es) (t ∷ (ts ++ vs)) us

-- The tokens that stand next: two or more, or all before a place where no token stands.
pub data Ahead : ℕ → Bytes → List Lexeme → Type 0 where
  enough : {p q : ℕ} {xs rest : Bytes} {ts : List Lexeme} → Lexes p xs ts q rest → 2 ≤ length ts → Ahead p xs ts
  all_there : {p q : ℕ} {xs rest : Bytes} {ts : List Lexeme} → Lexes p xs ts q rest → ((t : Lexeme) (r : ℕ) (ys : Bytes) → Lexes q rest (t ∷ []) r ys → ⊥) → Ahead p xs ts

-- From the place p the bytes xs begin with the object o, which ends at the place q, where the bytes are rest.
pub record SpelledAt (p : ℕ) (xs : Bytes) (o : Obj) (q : ℕ) (rest : Bytes) : Type 0 where
  pub tokens : List Lexeme
  pub next : List Lexeme
  pub own : Lexes p xs tokens q rest
  pub ahead : Ahead q rest next
  pub spells : Spells 32 o tokens next
