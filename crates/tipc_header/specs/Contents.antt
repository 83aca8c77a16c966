-- What a packet is to the link that it arrives on.
use Rattle.tipc_header.specs.declared.packet.Header.{Header}
use Rattle.tipc_header.specs.declared.packet.Header.TheVariants as header
use Rattle.tipc_header.specs.declared.contents.HeaderContent.{HeaderContent}
use Rattle.tipc_header.specs.declared.contents.HeaderContent.TheVariants as content
use Rattle.tipc_header.specs.declared.contents.Notice.TheVariants as notice

-- what a packet with this header is to a link: all but link protocol and discovery have a number
abbrev pub header_content : Header → HeaderContent
header_content (header.Reset said) = content.Notice (notice.Reset said)
header_content (header.Activate said) = content.Notice (notice.Activate said)
header_content (header.State state) = content.State state
header_content (header.Discovery discovery) = content.Discovery
header_content other = content.Numbered
