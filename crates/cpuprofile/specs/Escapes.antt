-- Which bytes stand for themselves in a string (RFC 8259, section 7).
use Rattle.std.specs.Prelude.{ℕ, Bool, not, ◌&&◌, ◌==◌, nat_le}

-- a byte that is no control character, no quote and no backslash
abbrev pub needs_no_escape : ℕ → Bool
needs_no_escape byte = nat_le 32 byte && not (byte == 34) && not (byte == 92)
