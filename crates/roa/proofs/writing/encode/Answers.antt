use Rattle.roa.proofs.Vocabulary.{◌≡◌, List, ap, ◌∙◌, IfOk-weaker, Asn, content_octets}
use Rattle.addr.specs.declared.roa_prefix.RoaPrefix.{RoaPrefix as Entry}
use Rattle.roa.proofs.Contents.{content_made}
use Rattle.roa.proofs.Grammar.{encodes_from}
use Rattle.roa.proofs.writing.encode.Goals as goal

pub returns : goal.returns
returns c =
    let made : content_made c.asn.result c.entries.result.now ≡ c.args.content.now =
    ap (λ (a : Asn). content_made a c.entries.result.now) c.asn.ensures ∙ ap (λ (es : List Entry). content_made c.args.content.now.asn es) c.entries.ensures.entries in
    IfOk-weaker c.write_content.result _ _ (λ octets are. encodes_from c.args.content.now octets.items c.entries.ensures.content (are ∙ ap content_octets made)) c.write_content.ensures
