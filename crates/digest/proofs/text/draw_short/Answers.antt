use Rattle.std.proofs.Common.{◌≡◌, ℕ, List, [], ◌++◌, length, take, ap, ◌∙◌, arith}
use Rattle.std.proofs.lemmas.List.{take_at}
use Rattle.protocol.specs.Streams.{first_bytes}
use Rattle.digest.specs.Making.{Making, Drew}
use Rattle.digest.proofs.Taking.{drew_ok}
use Rattle.digest.proofs.text.draw_short.Goals as goal

front : (m m' : Making) (n : ℕ) (out rest : List ℕ) → length out ≡ n → Drew out m m' → take n (out ++ rest) ≡ first_bytes (m.rule []) n
front m m' n out rest long d = take_at out rest n long ∙ d.bytes ∙ ap (first_bytes (m.rule [])) long

pub returns : goal.returns
returns g c =
    front _ _ c.args.width c.draw.new.out _ (omega arith)
    (drew_ok c.draw.result (g.D.DigestMaker.means c.args.maker.now) (g.D.DigestMaker.means c.draw.new.self) _ c.draw.new.out (omega arith) c.draw.ensures.answer c.draw.ensures.effect).1
