-- Every row of the table of runs holds of the definitions, by computation. A group of rows has a proof of its own, so that what is refused names the group.
use mathlib.Core.Path.{refl}
use Rattle.published.specs.Rust.{index, range, array, store, copy, same_array}
use Rattle.published.specs.Frames.{eth_src, eth_type, ip_proto, ip_src, ip_dst, ip_hlen, ip_payload, u16be, sum_from, folded, checksum, make_ip_frame, make_udp_payload, make_tcp_frame}
use Rattle.published.specs.Dhcp.{scan, message_type, build_reply, send_dhcp_reply, handle_dhcp}
use Rattle.published.specs.Udp.{handle_udp}
use Rattle.published.specs.Slirp.{handle_arp, handle_icmp, handle_ip, send}
use Rattle.published.specs.Runs.{All, starting, ethernet, arp, ipv4, icmp, icmp_headers, datagrams_sent, udp_headers, dhcp, dhcp_replies, message_types, checksums, ip_frames, udp_payloads, tcp_frames, dhcp_messages}

pub starting_hold : All starting
starting_hold = (refl, tt)

pub ethernet_hold : All ethernet
unfolding index range eth_type ip_proto u16be handle_arp handle_ip send
ethernet_hold = (refl, (refl, (refl, (refl, (refl, (refl, (refl, (refl, (refl, (refl, tt))))))))))

pub arp_hold : All arp
unfolding index range array store copy same_array eth_type u16be handle_arp send
arp_hold = (refl, (refl, (refl, (refl, (refl, (refl, (refl, (refl, (refl, (refl, (refl, (refl, (refl, (refl, tt))))))))))))))

pub ipv4_hold : All ipv4
unfolding index range array same_array eth_type ip_proto ip_dst ip_hlen ip_payload handle_icmp handle_udp handle_ip send
ipv4_hold = (refl, (refl, (refl, (refl, (refl, (refl, (refl, (refl, (refl, (refl, (refl, (refl, (refl, (refl, (refl, tt)))))))))))))))

pub icmp_hold : All icmp
unfolding index range array store copy same_array eth_src eth_type ip_proto ip_src ip_dst ip_hlen ip_payload sum_from folded checksum make_ip_frame handle_icmp handle_ip send
icmp_hold = (refl, (refl, (refl, (refl, (refl, (refl, (refl, (refl, (refl, (refl, (refl, (refl, (refl, (refl, (refl, (refl, (refl, (refl, (refl, tt)))))))))))))))))))

pub icmp_headers_hold : All icmp_headers
unfolding index range array store copy same_array eth_src eth_type ip_proto ip_src ip_dst ip_hlen ip_payload sum_from folded checksum make_ip_frame handle_icmp handle_ip send
icmp_headers_hold = (refl, (refl, (refl, (refl, (refl, (refl, (refl, (refl, (refl, (refl, (refl, (refl, (refl, (refl, tt))))))))))))))

pub datagrams_sent_hold : All datagrams_sent
unfolding index range array same_array eth_src eth_type ip_proto ip_src ip_dst ip_hlen ip_payload u16be handle_dhcp handle_udp handle_ip send
datagrams_sent_hold = (refl, (refl, (refl, (refl, (refl, (refl, (refl, (refl, (refl, (refl, (refl, (refl, (refl, (refl, (refl, (refl, (refl, (refl, (refl, (refl, (refl, (refl, (refl, (refl, (refl, (refl, (refl, tt)))))))))))))))))))))))))))

pub udp_headers_hold : All udp_headers
unfolding index range array same_array eth_src eth_type ip_proto ip_src ip_dst ip_hlen ip_payload u16be handle_dhcp handle_udp handle_ip send
udp_headers_hold = (refl, (refl, (refl, (refl, (refl, (refl, (refl, (refl, (refl, (refl, tt))))))))))

pub dhcp_hold : All dhcp
unfolding index range array same_array eth_src eth_type ip_proto ip_src ip_dst ip_hlen ip_payload u16be scan message_type handle_dhcp handle_udp handle_ip send
dhcp_hold = (refl, (refl, (refl, (refl, (refl, (refl, (refl, (refl, (refl, (refl, (refl, (refl, (refl, (refl, (refl, (refl, (refl, (refl, (refl, (refl, tt))))))))))))))))))))

pub dhcp_replies_hold : All dhcp_replies
unfolding index range array store copy same_array eth_src eth_type ip_proto ip_src ip_dst ip_hlen ip_payload u16be sum_from folded checksum make_ip_frame make_udp_payload scan message_type build_reply send_dhcp_reply handle_dhcp handle_udp handle_ip send
dhcp_replies_hold = (refl, (refl, (refl, (refl, (refl, (refl, (refl, (refl, tt))))))))

pub message_types_hold : All message_types
unfolding index scan message_type
message_types_hold = (refl, (refl, (refl, (refl, (refl, (refl, (refl, (refl, (refl, (refl, (refl, (refl, (refl, (refl, (refl, (refl, (refl, (refl, (refl, (refl, (refl, (refl, (refl, (refl, (refl, (refl, (refl, (refl, (refl, (refl, tt))))))))))))))))))))))))))))))

pub checksums_hold : All checksums
unfolding index sum_from folded checksum
checksums_hold = (refl, (refl, (refl, (refl, (refl, (refl, (refl, (refl, (refl, (refl, (refl, tt)))))))))))

pub ip_frames_hold : All ip_frames
unfolding index store copy sum_from folded checksum make_ip_frame
ip_frames_hold = (refl, (refl, (refl, (refl, (refl, (refl, (refl, (refl, (refl, tt)))))))))

pub udp_payloads_hold : All udp_payloads
unfolding copy make_udp_payload
udp_payloads_hold = (refl, (refl, (refl, (refl, (refl, tt)))))

pub tcp_frames_hold : All tcp_frames
unfolding index store copy sum_from folded checksum make_ip_frame make_tcp_frame
tcp_frames_hold = (refl, (refl, (refl, (refl, (refl, (refl, (refl, (refl, (refl, (refl, (refl, (refl, tt))))))))))))

pub dhcp_messages_hold : All dhcp_messages
unfolding store copy build_reply
dhcp_messages_hold = (refl, (refl, (refl, (refl, (refl, (refl, tt))))))
