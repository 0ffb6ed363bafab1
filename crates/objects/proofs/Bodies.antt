-- Bodies by how they start.
use Rattle.std.proofs.Common.{◌≡◌, ℕ, suc, ◌<◌, ◌≤◌, Bool, true, false, [], ◌∷◌, length, drop, ℤ, pos, negsuc, Some, None, Ok, Err, codes, Option, Result, w64, SFits, sym, refl, ap, ◌∙◌, arith, length-drop}
use Rattle.std.proofs.lemmas.Int.{ints}
use Rattle.std.specs.Bool.{then_some}
use Rattle.std.specs.Int.{FitsUnsignedBits}
use Rattle.std.specs.Int.RustNames.{unsigned_abs}
use Rattle.std.specs.Result.{result_ok, OkIff}
use Rattle.faults.specs.declared.fault.Fault.{Fault}
use Rattle.faults.specs.declared.reason.Reason.TheVariants.{OutsideBody}
use Rattle.format.specs.Bytes.{Bytes, Got, ok, bad, then}
use Rattle.format.specs.Failures.{object_fault}
use Rattle.format.specs.Strings.{turns}
use Rattle.format.specs.Tokens.{Token, token_at}
use Rattle.format.specs.Objects.{Obj, null, boolean, integer, decimal, literal, hexadecimal, named, array, dict, ref, Objs, Entries, no_entries, Reader, is_word, items, entries, one, in_array, in_dict, object_by, object, value_of}
use Rattle.format.specs.Frames.{length_of, entries_of, length_here, stream_rest, streamed, body_at, starts_loose, body_ends, body_fault}
use Rattle.lexer.specs.declared.token.Found.{Found}
use Rattle.lexer.specs.Views.{kind_of, found_token, Placed}
use Rattle.objects.specs.declared.shape.Shape.{Shape}
use Rattle.objects.specs.declared.shape.Shape.TheVariants as shapes
use Rattle.objects.specs.declared.shape.Value.{Value}
use Rattle.objects.specs.Shapes.{shape_of, shaped, shaped_maybe, shape_in, is_dict}
use Rattle.objects.specs.Extents.{entries_by, read_by, find}
use Rattle.objects.specs.Steps.{bare, token_in}
use Rattle.objects.specs.Bodies.{natural_of, length_shape, length_in, rest_got, StreamWord}
use Rattle.objects.proofs.Cases.{cases_o}
use Rattle.objects.proofs.Founds.{found_kind, found_from, found_ends, word_moves}
use Rattle.objects.proofs.Extents.{entries_checked, read_checked}
use Rattle.objects.proofs.Walks.{finds}
use Rattle.objects.proofs.Turns.{shaped_ok}

no_entries_fact : (o : Obj) → is_dict (shape_of o) ≡ false → entries_of o ≡ None
unfolding entries_of
no_entries_fact null h = refl
no_entries_fact (boolean b) h = refl
no_entries_fact (integer z) h = refl
no_entries_fact (decimal w) h = refl
no_entries_fact (literal w) h = refl
no_entries_fact (hexadecimal w) h = refl
no_entries_fact (named d) h = refl
no_entries_fact (array os) h = refl
no_entries_fact (dict es) h = absurd (let z : ◌≡◌ {A = ℕ} 0 1 = cc in omega arith)
no_entries_fact (ref n g) h = refl

length_shape_fact : (o : Obj) → length_of o ≡ length_shape (Some (shape_of o))
unfolding length_of
length_shape_fact null = refl
length_shape_fact (boolean b) = refl
length_shape_fact (integer (pos n)) = refl
length_shape_fact (integer (negsuc n)) = refl
length_shape_fact (decimal w) = refl
length_shape_fact (literal w) = refl
length_shape_fact (hexadecimal w) = refl
length_shape_fact (named d) = refl
length_shape_fact (array os) = refl
length_shape_fact (dict es) = refl
length_shape_fact (ref n g) = refl

length_maybe : (v : Option Obj) (es : Entries) → value_of (codes "Length") es ≡ v → length_here es ≡ length_shape (shaped_maybe v)
unfolding length_here
length_maybe None es e = rw (e, length_here) refl
length_maybe (Some o) es e = rw (e, length_here) (length_shape_fact o)

checked : read_by true 31 ≡ object_by 31
checked = λ i p xs. read_checked 31 p xs i

module _ (src : Bytes) (p : ℕ) where
  -- an object with nothing inside
  pub body_whole : (s : Shape) (q : ℕ) (ys : Bytes) → ((A D : ℕ → Reader) → shaped (one A D p (drop p src)) ≡ ok s q ys) → is_dict s ≡ false → ok tt q ys ≡ bare (body_at p (drop p src))
  unfolding body_at object object_by streamed
  body_whole s q ys h d = go (shaped_ok (one (in_array (object_by 31)) (in_dict (object_by 31)) p (drop p src)) s q ys (sym (h (in_array (object_by 31)) (in_dict (object_by 31)))))
    where
      go : ((o : Obj) × (one (in_array (object_by 31)) (in_dict (object_by 31)) p (drop p src) ≡ ok o q ys) × (s ≡ shape_of o)) → ok tt q ys ≡ bare (body_at p (drop p src))
      go (o, e, f) = let n : entries_of o ≡ None = no_entries_fact o (rw f at d) in rw (e, n) refl

  -- what starts no object
  pub body_refused : (f : Fault) → ((A D : ℕ → Reader) → one A D p (drop p src) ≡ bad f) → bad f ≡ bare (body_at p (drop p src))
  unfolding body_at object object_by
  body_refused f h = let e = h (in_array (object_by 31)) (in_dict (object_by 31)) in rw e refl

  module _ (s i : ℕ) (h : (A D : ℕ → Reader) → one A D p (drop p src) ≡ A s i (drop i src)) where
    array_only : (r : Got Objs) → bare (then (then r (λ os q ys. ok (array os) q ys)) (λ o q ys. streamed o q ys (entries_of o) (token_at q ys))) ≡ bare r
    unfolding streamed entries_of
    array_only (ok os q ys) = refl
    array_only (bad f) = refl

    -- an array
    pub body_array : (z : Got Unit) → z ≡ bare (items (read_by true 31) turns i (drop i src)) → z ≡ bare (body_at p (drop p src))
    unfolding body_at object object_by in_array
    body_array z e =
        let g = h (in_array (object_by 31)) (in_dict (object_by 31)) in
        e ∙ ap (λ (r : Reader). bare (items r turns i (drop i src))) checked ∙ rw g (sym (array_only (items (object_by 31) turns i (drop i src))))

  module _ (s i : ℕ) (h : (A D : ℕ → Reader) → one A D p (drop p src) ≡ D s i (drop i src)) where
    -- what is read of the dictionary, as the definition has it
    read : Got Entries
    read = entries (object_by 31) turns no_entries i (drop i src)

    same_read : bare (entries_by true (read_by true 31) turns no_entries i (drop i src)) ≡ bare (entries (object_by 31) turns no_entries i (drop i src))
    same_read = ap (λ (r : Reader). bare (entries_by true r turns no_entries i (drop i src))) checked ∙ ap bare (entries_checked (object_by 31) turns no_entries i (drop i src))

    body_is : body_at p (drop p src) ≡ then (then (entries (object_by 31) turns no_entries i (drop i src)) (λ es q ys. ok (dict es) q ys)) (λ o q ys. streamed o q ys (entries_of o) (token_at q ys))
    unfolding body_at object object_by in_dict
    body_is = let g = h (in_array (object_by 31)) (in_dict (object_by 31)) in rw g refl

    bare_bad : {A : Type 0} (r : Got A) (f : Fault) → bad f ≡ bare r → r ≡ bad f
    bare_bad (ok a q ys) f e = absurd (let z : ◌≡◌ {A = ℕ} 0 1 = cc in omega arith)
    bare_bad (bad g) f e = cc

    bare_ok : {A : Type 0} (r : Got A) (q : ℕ) (ys : Bytes) → ok tt q ys ≡ bare r → (a : A) × (r ≡ ok a q ys)
    bare_ok (ok a p xs) q ys e = (a, cc)
    bare_ok (bad g) q ys e = absurd (let z : ◌≡◌ {A = ℕ} 0 1 = cc in omega arith)

    -- a dictionary with an entry that is refused
    pub body_dict_bad : (f : Fault) → bad f ≡ bare (entries_by true (read_by true 31) turns no_entries i (drop i src)) → bad f ≡ bare (body_at p (drop p src))
    body_dict_bad f e = let g = bare_bad (entries (object_by 31) turns no_entries i (drop i src)) f (e ∙ same_read) in rw (body_is, g) refl

    module _ (q : ℕ) (e : ok tt q (drop q src) ≡ bare (entries_by true (read_by true 31) turns no_entries i (drop i src))) where
      entered : (es : Entries) × (entries (object_by 31) turns no_entries i (drop i src) ≡ ok es q (drop q src))
      entered = bare_ok (entries (object_by 31) turns no_entries i (drop i src)) q (drop q src) (e ∙ same_read)

      -- a dictionary and no stream
      pub body_dict : is_word (codes "stream") (token_in src q).kind ≡ false → ok tt q (drop q src) ≡ bare (body_at p (drop p src))
      unfolding streamed entries_of
      body_dict n = let g = entered.1 in rw (body_is, g, n, streamed) refl

      bare_rest : (r : Got Unit) (o : Obj) → bare (then r (λ _ a ys. ok o a ys)) ≡ r
      bare_rest (ok tt a ys) o = refl
      bare_rest (bad f) o = refl

      rest_is : (es : Entries) (t : Token) (w r : ℕ) (ys : Bytes) → t.from ≡ w → t.to ≡ r → t.rest ≡ ys → stream_rest es t ≡ rest_got (length_here es) w r ys
      unfolding stream_rest
      rest_is es t w r ys a b c = cases_o (length_here es) (λ l. rw (l, stream_rest, a) refl) (λ len l. rw (l, stream_rest, b, c) refl)

      -- a stream
      pub body_stream : (z : Got Unit) (w r : ℕ) → StreamWord src q (Some (w, r)) → z ≡ rest_got (length_in src i) w r (drop r src) → z ≡ bare (body_at p (drop p src))
      unfolding streamed entries_of
      body_stream z w r (n, a, t) g =
          let es = entered.0 in
          let l : length_here es ≡ length_in src i = length_maybe (value_of (codes "Length") es) es refl ∙ ap length_shape (sym (finds 31 i (drop i src) es q (drop q src) (codes "Length") entered.1)) in
          let m = entered.1 in
          g ∙ ap (λ x. rest_got x w r (drop r src)) (sym l) ∙ sym (rest_is es (token_in src q) w r (drop r src) a t.to t.rest) ∙ rw (body_is, m, n, streamed) (sym (bare_rest (stream_rest es (token_in src q)) (dict es)))

-- a body behind white space or a comment
pub put_loose : (b : Bytes) → starts_loose b ≡ true → Some (object_fault OutsideBody 0) ≡ body_fault b
unfolding body_fault
put_loose b e = rw (e, body_fault) refl

module _ (b : Bytes) (l : starts_loose b ≡ false) where
  ends_bad : (r : Got Obj) (f : Fault) → bad f ≡ bare r → Some f ≡ body_ends b r
  unfolding body_ends
  ends_bad (ok o q ys) f e = absurd (let z : ◌≡◌ {A = ℕ} 0 1 = cc in omega arith)
  ends_bad (bad g) f e = cc

  ends_more : (r : Got Obj) (q : ℕ) (ys : Bytes) → ok tt q ys ≡ bare r → 0 < length ys → Some (object_fault OutsideBody q) ≡ body_ends b r
  unfolding body_ends
  ends_more (bad f) q ys e h = absurd (let z : ◌≡◌ {A = ℕ} 0 1 = cc in omega arith)
  ends_more (ok o p []) q ys e h = absurd (let z : ys ≡ [] = cc in let n : length ys ≡ 0 = ap length z in omega arith)
  ends_more (ok o p (x ∷ xs)) q ys e h = let z : q ≡ p = cc in rw z refl

  ends_all : (r : Got Obj) (q : ℕ) (ys : Bytes) → ok tt q ys ≡ bare r → length ys ≡ 0 → None ≡ body_ends b r
  unfolding body_ends
  ends_all (bad f) q ys e h = absurd (let z : ◌≡◌ {A = ℕ} 0 1 = cc in omega arith)
  ends_all (ok o p []) q ys e h = refl
  ends_all (ok o p (x ∷ xs)) q ys e h = absurd (let z : ys ≡ x ∷ xs = cc in let n : length ys ≡ suc (length xs) = ap length z in omega arith)

  -- a body that is refused
  pub put_bad : (f : Fault) → bad f ≡ bare (body_at 0 b) → Some f ≡ body_fault b
  unfolding body_fault
  put_bad f e = rw (l, body_fault) (ends_bad (body_at 0 b) f e)

  -- bytes behind the body
  pub put_more : (q : ℕ) → ok tt q (drop q b) ≡ bare (body_at 0 b) → q < length b → Some (object_fault OutsideBody q) ≡ body_fault b
  unfolding body_fault
  put_more q e h = rw (l, body_fault) (ends_more (body_at 0 b) q (drop q b) e (simp length-drop (omega arith)))

  -- no byte behind the body
  pub put_all : (q : ℕ) → ok tt q (drop q b) ≡ bare (body_at 0 b) → length b ≤ q → None ≡ body_fault b
  unfolding body_fault
  put_all q e h = rw (l, body_fault) (ends_all (body_at 0 b) q (drop q b) e (simp length-drop (omega arith)))

-- the Length that a walk found
pub length_found : (src : Bytes) (first : ℕ) (v : Option Value) → v ≡ find (read_by false 31) turns (codes "Length") None first (drop first src) → length_shape (shape_in v) ≡ length_in src first
length_found src first v e = ap (λ x. length_shape (shape_in x)) e

-- a Length that is no integer
pub no_length : (s : Shape) → ((z : ℤ) → s ≡ shapes.Integer z → ⊥) → None ≡ length_shape (Some s)
no_length (shapes.Integer z) h = absurd (h z refl)
no_length shapes.Null h = refl
no_length (shapes.Boolean b) h = refl
no_length shapes.Real h = refl
no_length shapes.Text h = refl
no_length shapes.Hex h = refl
no_length shapes.Name h = refl
no_length shapes.Array h = refl
no_length shapes.Dictionary h = refl
no_length (shapes.Reference n g) h = refl

-- the word `stream` where it stands next
pub word_stands : (src : Bytes) (p : ℕ) (f : Found) (b : Bool) (r : Option (ℕ × ℕ)) → token_in src p ≡ found_token src f → Placed src p f → b ≡ is_word (codes "stream") (kind_of f.token) → r ≡ then_some b (f.from, f.to) →
    StreamWord src p r
word_stands src p f true r e h i j = rw j (ap (is_word (codes "stream")) (found_kind src p f e) ∙ sym i, found_from src p f e, found_ends src p f e h (word_moves _ _ _ _ _ (sym i) h.moves))
word_stands src p f false r e h i j = rw j (ap (is_word (codes "stream")) (found_kind src p f e) ∙ sym i)

-- an integer as a count
pub natural_is : {E : Type 0} (z i : ℤ) (r : Result ℕ E) → i ≡ z → SFits w64 z → OkIff r (FitsUnsignedBits 64 i) (unsigned_abs i) → result_ok r ≡ natural_of z
natural_is z i r e f h = go z r f (rw e at h)
  where
    go : {E : Type 0} (z : ℤ) (r : Result ℕ E) → SFits w64 z → OkIff r (FitsUnsignedBits 64 z) (unsigned_abs z) → result_ok r ≡ natural_of z
    go (pos n) (Ok x) f h = ap Some h.1
    go (pos n) (Err x) f h = absurd (h (omega (arith, ints)))
    go (negsuc n) (Ok x) f h = absurd h.0
    go (negsuc n) (Err x) f h = refl
