-- The entries of the previous trailer, one by one.
use Rattle.std.proofs.Common.{◌≡◌, ℕ, ◌+◌, ◌-◌, ◌*◌, ◌≤◌, Bool, true, false, [], ◌++◌, length, take, drop, Some, None, codes, sym, refl, ap, ◌∙◌, subst, append_assoc, append-nil, add-one, arith}
use Rattle.std.proofs.lemmas.List.Edits.{length-between}
use Rattle.entries.specs.Cells.{part}
use Rattle.format.specs.Bytes.{Bytes, Got, ok, bad, same}
use Rattle.format.specs.Objects.{Obj, Entries, no_entries, more_entries, entries, object_by}
use Rattle.format.specs.Strings.{turns}
use Rattle.format.specs.Writing.{is_rewritten, copied}
use Rattle.lexer.specs.Spelled.{spelled}
use Rattle.locality.proofs.Cases.{cases}
use Rattle.locality.proofs.Tests.{clash}
use Rattle.objects.proofs.EntryByEntry.{lists}
use Rattle.objects.specs.declared.shape.Entry.{Entry}
use Rattle.objects.specs.EntryByEntry.{EntryStands, EntriesFrom}
use Rattle.objects.specs.Nexts.{entry_in}
use Rattle.writer.specs.declared.draft.Draft.{Draft}
use Rattle.writer.specs.Drafts.{Adds, written, limit_of}
use Rattle.writer.specs.Pieces.{pair_bytes}
use Rattle.writer.specs.Trailers.{ReadAs, Readable, is_got, is_read, Lies, copy_of}
use Rattle.writer.proofs.Lengths.{pair_length}
use Rattle.writer.proofs.Pieces.{copied_parts}
use Rattle.writer.proofs.Written.{adds_from}

-- the bytes read, entry by entry
pub listed : (src : Bytes) (p : ℕ) (es : Entries) → ReadAs src p es → EntriesFrom src p es
listed src p es (q, ys, e) = lists src p es q ys e

-- what is read, by its test
got : {A : Type 0} (g : Got A) → is_got g ≡ true → (x : A) × ((q : ℕ) × (ys : Bytes) × (g ≡ ok x q ys))
got (ok x q ys) h = (x, (q, ys, refl))
got (bad f) h = clash (cc)

pub read_some : (src : Bytes) (p : ℕ) → is_read src p ≡ true → Readable src p
unfolding is_read
read_some src p h = got (entries (object_by 31) turns no_entries p (drop p src)) h

pub reads : (src : Bytes) (p : ℕ) → Readable src p → is_read src p ≡ true
unfolding is_read
reads src p (es, (q, ys, e)) = ap is_got e

-- the first of some entries, and those behind it
pub record First (src : Bytes) (p : ℕ) (es : Entries) (e : Entry) : Type 0 where
  pub rest : Entries
  pub lies : Lies src e
  pub starts : p ≤ e.key
  pub copy : copied es ≡ copy_of src e ++ copied rest
  pub behind : EntriesFrom src e.value.end rest

copy_is : (src k kb vb : Bytes) (o : Obj) (es : Entries) (e : Entry) → k ≡ spelled (part src (e.key + 1) e.behind) → kb ≡ part src e.key e.behind → vb ≡ part src e.value.start e.value.end →
    copied (more_entries k kb vb o es) ≡ copy_of src e ++ copied es
copy_is src k kb vb o es e hk hb hv =
    let p = copied_parts k kb vb o es in
    let name = spelled (part src (e.key + 1) e.behind) in
    cases (is_rewritten name)
    (λ t.
    let q : is_rewritten k ≡ true = ap is_rewritten hk ∙ t in
    p.1 q ∙ (rw (t, copy_of) refl))
    (λ f.
    let q : is_rewritten k ≡ false = ap is_rewritten hk ∙ f in
    p.0 q ∙ ap (λ x. pair_bytes x vb ++ copied es) hb ∙ ap (λ x. pair_bytes (part src e.key e.behind) x ++ copied es) hv ∙ (rw (f, copy_of) refl))

first_of : (src : Bytes) (p : ℕ) (k kb vb : Bytes) (o : Obj) (es : Entries) (e : Entry) → EntryStands src p k kb vb o e → EntriesFrom src e.value.end es → First src p (more_entries k kb vb o es) e
first_of src p k kb vb o es e s b =
    let n : k ≡ spelled (part src (e.key + 1) e.behind) = s.name ∙ ap (λ j. spelled (take (e.behind - j) (drop j src))) (sym (add-one e.key)) in
    record {
      rest = es;
      lies = record { named = s.named; apart = s.apart; valued = s.valued; ends = s.ends };
      starts = s.starts;
      copy = copy_is src k kb vb o es e n s.key_bytes s.value_bytes;
      behind = b;
    }

pub first : (src : Bytes) (p : ℕ) (es : Entries) (e : Entry) → EntriesFrom src p es → entry_in src p ≡ Some e → First src p es e
first src p no_entries e h f = clash (cc)
first src p (more_entries k kb vb o es) e (e', s, b) f =
    let same : e' ≡ e = let g = s.found in cc in
    let P : Entry → Type 0 = λ x. First src p (more_entries k kb vb o es) x in
    subst P same (first_of src p k kb vb o es e' s b)

-- none is left
pub none_left : (src : Bytes) (p : ℕ) (es : Entries) → EntriesFrom src p es → entry_in src p ≡ None → copied es ≡ []
unfolding copied
none_left src p no_entries h f = refl
none_left src p (more_entries k kb vb o es) (e', s, b) f = let g = s.found in clash (cc)

-- part of the entries is copied
pub record Copying (src : Bytes) (at : ℕ) (es : Entries) (d₀ d : Draft) : Type 0 where
  pub rest : Entries
  pub behind : EntriesFrom src at rest
  pub bytes : written d ++ copied rest ≡ written d₀ ++ copied es

pub copying_start : (src : Bytes) (p : ℕ) (es : Entries) (d : Draft) → ReadAs src p es → Copying src p es d d
copying_start src p es d h = record { rest = es; behind = listed src p es h; bytes = refl }

pub copying_step : (src : Bytes) (at : ℕ) (es : Entries) (e : Entry) (d₀ d d' : Draft) → Copying src at es d₀ d → entry_in src at ≡ Some e → Adds d (copy_of src e) d' → Copying src e.value.end es d₀ d'
copying_step src at es e d₀ d d' was f a =
    let one = first src at was.rest e was.behind f in
    record {
      rest = one.rest;
      behind = one.behind;
      bytes =
          ap (λ xs. xs ++ copied one.rest) a.bytes
          ∙ append_assoc (written d) (copy_of src e) (copied one.rest)
          ∙ ap (λ xs. written d ++ xs) (sym one.copy)
          ∙ was.bytes;
    }

pub copying_done : (src : Bytes) (at : ℕ) (es : Entries) (d₀ d : Draft) → Copying src at es d₀ d → entry_in src at ≡ None → limit_of d ≡ limit_of d₀ → Adds d₀ (copied es) d
copying_done src at es d₀ d was f l =
    adds_from d₀ d (copied es) (sym (append-nil (written d)) ∙ ap (λ xs. written d ++ xs) (sym (none_left src at was.rest was.behind f)) ∙ was.bytes) l

-- what is copied of an entry is at most twice as long as the entry
pub copy_fits : (src : Bytes) (e : Entry) → Lies src e → length (copy_of src e) ≤ 2 * (e.value.end - e.key)
copy_fits src e h =
    let a = h.named in
    let b = h.apart in
    let c = h.valued in
    let d = h.ends in
    let x = length-between src e.key e.behind (omega arith) in
    let y = length-between src e.value.start e.value.end (omega arith) in
    let z = pair_length (part src e.key e.behind) (part src e.value.start e.value.end) in
    cases (is_rewritten (spelled (part src (e.key + 1) e.behind)))
    (λ t. rw (t, copy_of) (omega arith))
    (λ f. rw (f, copy_of) (omega arith))

-- Size and Prev are written anew
pub rewritten_size : (k : Bytes) → same k (codes "Size") ≡ true → true ≡ is_rewritten k
unfolding is_rewritten
rewritten_size k e = rw e refl

pub rewritten_prev : (k : Bytes) (b : Bool) → same k (codes "Size") ≡ false → b ≡ same k (codes "Prev") → b ≡ is_rewritten k
unfolding is_rewritten
rewritten_prev k b e f = rw e f
