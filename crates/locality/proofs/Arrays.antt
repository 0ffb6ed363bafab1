-- The elements of an array decide themselves.
use Rattle.std.proofs.Common.{◌≡◌, ℕ, zero, suc, ◌+◌, true, false, [], ◌++◌, length, None, sym, refl, ap, ◌∙◌, subst, append_assoc, arith, length-append}
use Rattle.format.specs.Bytes.{Bytes, ok, then}
use Rattle.format.specs.Tokens.{open_array, close_array, open_dict, close_dict, Kind, int, real, name, text, hex, mark, word, ended, flawed, Token, token_at}
use Rattle.format.specs.Objects.{Obj, Objs, no_objs, more_objs, Reader, plain_int, is_word, closes_array, items}
use Rattle.locality.specs.Locality.{Good, is_run}
use Rattle.locality.specs.LocalityObjects.{R, After}
use Rattle.locality.proofs.Cases.{cases}
use Rattle.locality.proofs.Local.{never, same_rest, same_value, then_ok}
use Rattle.locality.proofs.Held.{Held, Holds, Inside, first_by, mark_good, no_ref_unless_int, Front, front_of, after_none}
use Rattle.locality.proofs.Tests.{clash, not_no}

-- what closes an array is its mark
pub closing : (k : Kind) → closes_array k ≡ true → k ≡ mark close_array
unfolding closes_array
closing (mark close_array) e = refl
closing (mark open_array) e = clash (cc)
closing (mark open_dict) e = clash (cc)
closing (mark close_dict) e = clash (cc)
closing (word w) e = clash (cc)
closing (int b z) e = clash (cc)
closing (real w) e = clash (cc)
closing (name d) e = clash (cc)
closing (text w) e = clash (cc)
closing (hex w) e = clash (cc)
closing ended e = clash (cc)
closing (flawed f) e = clash (cc)

-- the end of an array
items_end : (elem : Reader) (n p : ℕ) (xs : Bytes) (os : Objs) (q : ℕ) (rest : Bytes) → closes_array (token_at p xs).kind ≡ true →
    items elem (suc n) p xs ≡ ok os q rest → Inside (items elem (suc n)) xs os rest
unfolding items
items_end elem n p xs os q rest b e = go (mark_good (token_at p xs).kind close_array (closing (token_at p xs).kind b)) (rw (b, items) at e)
  where
    go : (Good (token_at p xs).kind) × (is_run (token_at p xs).kind ≡ false) × (is_word R (token_at p xs).kind ≡ false) × (plain_int (token_at p xs).kind ≡ None) →
        ok no_objs (token_at p xs).to (token_at p xs).rest ≡ ok os q rest → Inside (items elem (suc n)) xs os rest
    go g e' = go₂ (front_of p xs g.0)
      where
        go₂ : Front xs (token_at p xs) → Inside (items elem (suc n)) xs os rest
        go₂ l = record {
          loc = record {
            pre = l.pre;
            parts = l.parts ∙ ap (λ zs. l.pre ++ zs) (same_rest e');
            again = λ p' ys _. rw (l.again p' ys (not_no (is_run (token_at p xs).kind) g.1), items) (rw b (rw (l.again p' ys (not_no (is_run (token_at p xs).kind) g.1)) (let o : no_objs ≡ os = cc in λ i. ok (o i) (p' + length l.pre) ys)));
          };
          not_r = λ p' ys. rw (l.again p' ys (not_no (is_run (token_at p xs).kind) g.1)) g.2;
          no_ref = λ m p' ys. no_ref_unless_int m (token_at p' (l.pre ++ ys)) (rw (l.again p' ys (not_no (is_run (token_at p xs).kind) g.1)) g.3);
          first = first_by l.pre (token_at p xs).kind g.0 (ap (λ (u : Token). u.kind) (l.again 0 [] (not_no (is_run (token_at p xs).kind) g.1)));
        }

-- one element more
items_more : (elem : Reader) (n p : ℕ) (xs : Bytes) (o : Obj) (os : Objs) (ys rest : Bytes) →
    Held elem xs o ys → Inside (items elem n) ys os rest → Inside (items elem (suc n)) xs (more_objs o os) rest
unfolding items
items_more elem n p xs o os ys rest h i = record {
  loc = record {
    pre = h.loc.pre ++ i.loc.pre;
    parts = h.loc.parts ∙ ap (λ zs. h.loc.pre ++ zs) i.loc.parts ∙ sym (append_assoc h.loc.pre i.loc.pre rest);
    again = λ p' zs _.
        rw append_assoc
        (let c : closes_array (token_at p' (h.loc.pre ++ (i.loc.pre ++ zs))).kind ≡ false = rw (h.front p' (i.loc.pre ++ zs) (after zs)) h.not_close in
        rw (c, items) (rw (h.loc.again p' (i.loc.pre ++ zs) (after zs))
        (rw (i.loc.again (p' + length h.loc.pre) zs tt)
        (let v : p' + length h.loc.pre + length i.loc.pre ≡ p' + length (h.loc.pre ++ i.loc.pre) = rw length-append (omega arith) in
        λ j. ok (more_objs o os) (v j) zs))));
  };
  not_r = λ p' zs. rw append_assoc (rw (h.front p' (i.loc.pre ++ zs) (after zs)) h.not_r);
  no_ref = λ m p' zs. rw append_assoc (h.no_ref m p' (i.loc.pre ++ zs) (after zs) (λ q. i.not_r q zs));
  first = λ us vs. rw (append_assoc h.loc.pre i.loc.pre us, append_assoc h.loc.pre i.loc.pre vs)
      (first_by h.loc.pre h.kind h.good (h.front 0 [] (after_none o)) (i.loc.pre ++ us) (i.loc.pre ++ vs));
}
  where
    after : (zs : Bytes) → After o (i.loc.pre ++ zs)
    after zs = record {
      run = λ e. i.first zs rest ∙ (rw i.loc.parts at (h.had e));
      alone = λ _ m p'. i.no_ref m p' zs;
    }

-- the elements of an array decide themselves
pub items_local : (elem : Reader) → Holds elem → (n p : ℕ) (xs : Bytes) (os : Objs) (q : ℕ) (rest : Bytes) → items elem n p xs ≡ ok os q rest → Inside (items elem n) xs os rest
unfolding items
items_local elem hold zero p xs os q rest e = never e
items_local elem hold (suc n) p xs os q rest e =
    cases (closes_array (token_at p xs).kind)
    (λ b. items_end elem n p xs os q rest b e)
    (λ b.
    let u = then_ok (elem p xs) (λ o q' ys. then (items elem n q' ys) (λ os' r zs. ok (more_objs o os') r zs)) os q rest (rw (b, items) at e) in
    let v = then_ok (items elem n u.1 u.2) (λ os' r zs. ok (more_objs u.0 os') r zs) os q rest u.4 in
    let m : more_objs u.0 v.0 ≡ os = same_value v.4 in
    subst (λ os'. Inside (items elem (suc n)) xs os' rest) m
    (items_more elem n p xs u.0 v.0 u.2 rest (hold p xs u.0 u.1 u.2 u.3)
    (subst (λ zs. Inside (items elem n) u.2 v.0 zs) (same_rest v.4) (items_local elem hold n u.1 u.2 v.0 v.1 v.2 v.3))))
