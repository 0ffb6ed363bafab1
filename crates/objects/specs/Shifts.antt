-- What a reader answers where every place is later by as much.
use Rattle.std.specs.Prelude.{ℕ, ◌+◌, Some, None, Option}
use Rattle.faults.specs.declared.fault.Fault.{Fault}
use Rattle.format.specs.Bytes.{Got, ok, bad}
use Rattle.format.specs.Numbers.{Numeral, whole, fraction, past_bound, no_number}
use Rattle.format.specs.Names.{Decoded, decoded, wrong_hash, Escape, plain, hash, half}
use Rattle.format.specs.Strings.{Span, closed, unclosed, too_deep_at, broken_at}
use Rattle.format.specs.Space.{Eol, no_bytes, no_eol, eol_to}
use Rattle.format.specs.Tokens.{Flaw, bad_name, bad_number, bad_hex, stray, cut_short, deep_bracket, out_of_range, Kind, int, real, name, text, hex, mark, word, ended, flawed, Token, tok}
use Rattle.format.specs.Frames.{Framed}

module _ (b : ℕ) where
  abbrev pub later_fault : Fault → Fault
  later_fault f = record { reason = f.reason; layer = f.layer; place = b + f.place; object = f.object }

  abbrev pub later : {A : Type 0} → Got A → Got A
  later (ok a q ys) = ok a (b + q) ys
  later (bad f) = bad (later_fault f)

  abbrev pub later_place : Option ℕ → Option ℕ
  later_place (Some p) = Some (b + p)
  later_place None = None

  abbrev pub later_numeral : Numeral → Numeral
  later_numeral (whole u z) = whole u z
  later_numeral fraction = fraction
  later_numeral past_bound = past_bound
  later_numeral (no_number q) = no_number (b + q)

  abbrev pub later_decoded : Decoded → Decoded
  later_decoded (decoded d) = decoded d
  later_decoded (wrong_hash q) = wrong_hash (b + q)

  abbrev pub later_escape : Escape → Escape
  later_escape plain = plain
  later_escape (hash s) = hash (b + s)
  later_escape (half s h) = half (b + s) h

  abbrev pub later_span : Span → Span
  later_span (closed q ys) = closed (b + q) ys
  later_span unclosed = unclosed
  later_span (too_deep_at q) = too_deep_at (b + q)
  later_span (broken_at q) = broken_at (b + q)

  abbrev pub later_flaw : Flaw → Flaw
  later_flaw (bad_name q) = bad_name (b + q)
  later_flaw (bad_number q) = bad_number (b + q)
  later_flaw (bad_hex q) = bad_hex (b + q)
  later_flaw stray = stray
  later_flaw (cut_short q) = cut_short (b + q)
  later_flaw (deep_bracket q) = deep_bracket (b + q)
  later_flaw out_of_range = out_of_range

  abbrev pub later_kind : Kind → Kind
  later_kind (int u z) = int u z
  later_kind (real w) = real w
  later_kind (name d) = name d
  later_kind (text w) = text w
  later_kind (hex w) = hex w
  later_kind (mark m) = mark m
  later_kind (word w) = word w
  later_kind ended = ended
  later_kind (flawed f) = flawed (later_flaw f)

  abbrev pub later_token : Token → Token
  later_token t = tok (later_kind t.kind) (b + t.from) t.bytes (b + t.to) t.rest

  abbrev pub later_eol : Eol → Eol
  later_eol no_bytes = no_bytes
  later_eol no_eol = no_eol
  later_eol (eol_to q ys) = eol_to (b + q) ys

  abbrev pub later_frame : Got Framed → Got Framed
  later_frame (ok f q ys) = ok (record { number = f.number; gen = f.gen; start = b + f.start; body = f.body }) (b + q) ys
  later_frame (bad f) = bad (later_fault f)
